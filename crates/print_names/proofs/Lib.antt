-- Laws of the names that are still to come.
mod NamesAhead
