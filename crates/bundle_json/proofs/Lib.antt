pub mod ListLemmas
pub mod StringLemmas
pub mod IpnLemmas
pub mod ObjectLemmas
pub mod WalkLemmas
pub mod TellingLemmas
