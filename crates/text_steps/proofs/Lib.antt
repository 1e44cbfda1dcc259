mod Computed
mod Determined
