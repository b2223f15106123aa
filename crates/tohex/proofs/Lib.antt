-- `Answers` says what the answers of the door mean, where there is room for every text.
mod Answers
