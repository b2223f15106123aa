-- `Room` says that a line is short enough, `Example` what one is, and `Answers` what the call's answer means for what is told.
mod Room
mod Example
mod Answers
