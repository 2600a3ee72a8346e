mod Filing
mod Lists
mod Keeps
mod Splitting
mod Came
mod Passes
