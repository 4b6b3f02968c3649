mod BlockBytes
mod BlockLengths
mod Converted
mod NarrowCodes
