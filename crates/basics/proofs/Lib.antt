mod Beginnings
mod Numbers
mod Showing
