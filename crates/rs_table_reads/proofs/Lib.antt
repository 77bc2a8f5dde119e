mod Entries
mod Indexed
mod Lends
mod Overlaps
mod Picks
mod Within
