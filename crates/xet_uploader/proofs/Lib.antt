pub mod AfterLogs
pub mod CallerLemmas
pub mod ChunkFinds
pub mod NotedChunks
pub mod RefusedPuts
