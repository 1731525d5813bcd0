-- The words of hex, for the crates that read and write it by this one: digits of lower case, what octets
-- are in them, and what a text of digits of either case is read as.
pub use Rattle.hex.specs.declared.FromHexError.{FromHexError}
pub use Rattle.hex.specs.Hex.{IsBytes, decode_of, encode_lower, is_hex_digit, lower_digits}
unfoldable pub use Rattle.hex.specs.Hex.{encode_with}
