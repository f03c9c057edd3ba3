-- Laws of what specs/ defines.
mod Laws
