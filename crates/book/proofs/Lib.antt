pub mod Bills
pub mod Portions
pub mod SheetParts
pub mod Stagings
pub mod Weighings
