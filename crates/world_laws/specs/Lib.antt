pub mod LawfulWorlds
pub mod work
