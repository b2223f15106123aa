-- `Room` says how long the lines are at most, and what the code of an answer is.
mod Room
