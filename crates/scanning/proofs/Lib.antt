-- Laws of the first pass over a text.
mod Scanned
