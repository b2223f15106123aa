-- `Room` says that the text of an answer is short enough, `Example` what it is at two answers.
mod Room
mod Example
