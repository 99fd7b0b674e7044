pub mod work
