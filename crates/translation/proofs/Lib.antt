mod Lists
mod Scan
mod Spelled
mod Readers
mod Translating
