-- Decimal fields: what they mean, and the laws for any width.
pub mod Scan
pub mod Field
pub mod Laws
pub mod Cut
pub mod Word
pub mod Order
pub mod Digits
