mod Texts
mod Draws
mod RasterSums
