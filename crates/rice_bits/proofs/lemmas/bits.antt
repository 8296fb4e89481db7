-- Bits, words and bytes.
pub mod BytesAndBits
pub mod EightBytes
pub mod FrontsOfWords
pub mod JoinedBits
pub mod WordsReadInOneWay
pub mod FieldsAtFront
pub mod WordsAndNumbers
pub mod SinkBytes
pub mod WholeWords
