pub mod SignExtension
