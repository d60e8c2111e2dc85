-- In the order in which to read them: integers near zero, polynomials, and their product.
pub mod Centring
pub mod Polynomials
pub mod Product
