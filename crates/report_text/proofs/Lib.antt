-- The text of one key more: Printing. A number in decimal as the library writes it: Decimals.
pub mod Printing
pub mod Decimals
