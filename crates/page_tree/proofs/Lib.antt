mod Counts
mod Children
mod Limbs
mod Spread
mod BlockRanges
mod BranchRanges
mod BlockEdits
mod LimbEdits
mod Blockwise
pub mod Cuts
mod Alike
mod Replaced
