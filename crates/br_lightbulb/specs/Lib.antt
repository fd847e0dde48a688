pub mod Firmware
pub mod Frames
pub mod Lan
pub mod Names
pub mod Polls
pub mod Shows
pub mod Spi
pub mod Text
