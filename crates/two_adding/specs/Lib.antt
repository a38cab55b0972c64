-- Laws of adding and removing a line on a plain sheet and a bookkeeping sheet.
pub mod Placing
pub mod Parts
pub mod Cut
pub mod Calls
