mod Watching
mod Steps
mod Noted
mod Rows
