pub mod OneByte
