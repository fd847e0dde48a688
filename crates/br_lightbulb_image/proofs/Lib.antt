mod Functions
mod Entries
mod Staying
