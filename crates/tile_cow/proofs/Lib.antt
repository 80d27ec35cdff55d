mod Contents
mod Fields
mod Layouts
mod Names
mod Rooms
mod Rows
mod Sent
mod Steps
