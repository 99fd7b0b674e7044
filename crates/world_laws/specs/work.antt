pub mod Definitions
pub mod LawfulWorlds
