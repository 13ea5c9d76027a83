mod Sizes
