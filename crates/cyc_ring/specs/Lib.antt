pub mod Views
pub mod Rows
pub mod Steps
pub mod Ends
pub mod Books
pub mod Laws
