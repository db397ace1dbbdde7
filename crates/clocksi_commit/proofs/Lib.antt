mod Commits
mod Turns
