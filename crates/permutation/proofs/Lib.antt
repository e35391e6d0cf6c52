mod Mapped
mod Places
mod Planes
mod Bytes
