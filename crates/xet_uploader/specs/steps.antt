pub mod ChunkPlaces
