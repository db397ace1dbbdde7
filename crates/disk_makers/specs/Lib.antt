pub mod FileCalls
pub mod FileDisks
pub mod Makers
pub mod MemMakers
pub mod RealMakers
