-- Lines of text: what a line says, how it is read byte by byte, and what is printed.
pub mod Line
pub mod Reader
pub mod Print
