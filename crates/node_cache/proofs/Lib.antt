mod Lists
mod Owning
mod Voids
mod Views
mod HandViews
