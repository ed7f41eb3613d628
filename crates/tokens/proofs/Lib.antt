mod Blanks
mod Words
