pub mod Digest
pub mod Entries
pub mod Leases
pub mod Table
