mod Grown
mod Needing
mod Passes
mod Counts
mod Composed
mod Fronts
mod Unrefused
