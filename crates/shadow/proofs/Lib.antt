mod Comparisons
mod CountIndices
