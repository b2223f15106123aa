-- `Digits` has the laws of the length that is asked for, and that a plain decimal asks for its number; `Says` those of the line of a
-- refusal, and that there is one just where a text is refused.
mod Digits
mod Says
