mod Hearing
mod Pieces
mod Streams
mod Serving
