-- Cells that nothing uses: Steps and Queue are read first.
pub mod Cells
pub mod Quiet
pub mod Best
pub mod Steps
pub mod Queue
