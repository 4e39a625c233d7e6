mod Lists
mod Conflicts
mod Sorted
mod Merged
mod Permitted
mod Joined
mod Unmarked
mod Overlaid
