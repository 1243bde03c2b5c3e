pub mod ChunkMasks
