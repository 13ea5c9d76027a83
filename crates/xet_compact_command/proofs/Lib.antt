mod Compacted
