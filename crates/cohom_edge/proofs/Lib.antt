mod Contents
mod Pieces
mod Readings
