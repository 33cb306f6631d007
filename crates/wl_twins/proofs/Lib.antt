pub mod ToldApart
