-- Ways out of the code, by concern.
pub mod LayoutExits
pub mod ObjectExits
pub mod LockExits
pub mod CheckExits
pub mod StoreExits
pub mod HandOutExits
