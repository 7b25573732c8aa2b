pub mod Comparisons
