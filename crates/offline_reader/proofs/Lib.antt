mod Places
mod Scanning
