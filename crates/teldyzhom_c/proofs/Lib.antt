-- What the C functions answer, from the answers of the entries.
mod ForC
