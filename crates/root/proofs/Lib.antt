-- The laws, once for any format: what a whole root is; the root on sizes in units, and on floats; the promises of specs/Nearest.antt; gains by roots; rows.
pub mod Squares
pub mod Sizes
pub mod Laws
pub mod Nearest
pub mod Gains
pub mod Rows
-- Then what the functions need: the bit pattern that the definition gives, that the code's numbers make it, and what its tests say of its argument.
pub mod Rounded
pub mod Parts
pub mod Special
