-- The lemmas of the program digests.
mod Numbers
