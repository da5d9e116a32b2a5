-- Internal. The modules of this folder.
mod Controls
mod Lengths
