mod Pointers
